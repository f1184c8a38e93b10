pub mod Views
pub mod Keeping
pub mod ListLaws
pub mod KeepingLaws
pub mod StayingLaws
pub mod StoringLaws
