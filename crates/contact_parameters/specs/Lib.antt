pub mod Motions
pub mod RecycleLaws
pub mod Views
pub mod ChangeLaws
