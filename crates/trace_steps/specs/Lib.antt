-- What a step is given by the lines of a stretch of text: what one line does to the rows, and the laws.
pub mod EndLaws
pub mod PlaceLaws
pub mod ReadingLaws
pub mod Lines
pub mod Stretch
pub mod Promises
pub mod ProposalLaws
pub mod LineLaws
pub mod FollowLaws
pub mod RowLaws
pub mod CodeLaws
pub mod ActiveLaws
pub mod LoopLaws
pub mod ProposalsLaws
