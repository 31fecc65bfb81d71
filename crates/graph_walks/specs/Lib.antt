pub mod Paths
pub mod Explored
pub mod RowLaws
pub mod Closed
pub mod Dominators
pub mod Narrowing
