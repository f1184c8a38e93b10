pub mod Layout
pub mod Calls
pub mod CallLaws
pub mod DeterminedLaws
pub mod CalledLaws
pub mod TraceCall
pub mod TraceCallLaws
