pub mod Matched
pub mod MatchedFitLaws
pub mod StoredOverLaws
pub mod MatchingLaws
