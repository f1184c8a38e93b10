-- The pair key and the bits: definitions, then the laws.
pub mod PairKey
pub mod PairKeyLaws
pub mod BitVec
pub mod NumberLaws
pub mod WordLaws
pub mod SameBitsLaws
pub mod BitVecLaws
pub mod LoopLaws
