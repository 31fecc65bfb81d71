pub mod Answers
pub mod Bitmaps
pub mod Copies
pub mod Handed
pub mod Hash
pub mod Lends
