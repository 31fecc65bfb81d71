pub mod Answers
pub mod Block
pub mod Copies
pub mod Lends
