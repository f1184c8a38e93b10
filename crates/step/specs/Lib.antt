pub mod Step
pub mod DeterminedLaws
pub mod AcceptedLaws
pub mod TestLaws
pub mod CallLaws
pub mod Read
