pub mod AsBox
pub mod BlockNumbers
pub mod Bounds
pub mod ByteDigits
pub mod RowBlocks
pub mod RowSearches
pub mod Runs
pub mod Sets
