pub mod Answer
pub mod WriteLaws
pub mod CaseLaws
