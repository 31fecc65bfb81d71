pub mod Runs
pub mod Bounds
pub mod Numbering
pub mod Tables
pub mod Building
pub mod Pairs
pub mod Searching
