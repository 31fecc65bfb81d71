pub mod WalkLemmas
pub mod CloseLemmas
pub mod PathLemmas
pub mod MatrixLemmas
pub mod FollowLemmas
pub mod DominatorLemmas
