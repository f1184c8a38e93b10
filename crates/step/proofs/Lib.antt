pub mod StepLaws
pub mod ShareLaws
pub mod CodeLaws
pub mod ReadLaws
