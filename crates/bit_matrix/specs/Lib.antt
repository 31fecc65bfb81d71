pub use Rattle.bit_words.specs.Bounds
pub mod Matrices
pub mod Tables
pub mod Merges
pub mod Squares
pub mod Walks
pub mod Compared
