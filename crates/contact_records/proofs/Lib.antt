pub mod IntLaws
pub mod BackLaws
pub mod FitLaws
pub mod PartLaws
