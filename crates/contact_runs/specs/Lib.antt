-- The claim and what it is made of; then the laws, and the theorem.
pub mod Refusals
pub mod Solver
pub mod Ordered
pub mod Runs
pub mod Called
pub mod Claim
pub mod RefusalLaws
pub mod WriteLaws
pub mod OrderLaws
pub mod RunLaws
pub mod OrderedRunLaws
pub mod OnlyLaws
pub mod AlikeRunLaws
pub mod ReplayLaws
pub mod ProvisoLaws
pub mod CalledRunLaws
pub mod DemandLaws
