pub mod Shares
pub mod CountingLaws
pub mod SharesLaws
