pub mod Recorded
pub mod Views
pub mod Range
pub mod LoadedLaws
