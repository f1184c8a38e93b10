pub mod WordLaws
pub mod BoundLaws
