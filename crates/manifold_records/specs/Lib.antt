pub mod Recorded
pub mod Written
pub mod Counts
pub mod MadeLaws
pub mod ListLaws
pub mod LengthLaws
pub mod StoredLaws
