pub mod Cuts
pub mod Lines
pub mod Reading
pub mod Spelling
pub mod Texts
pub mod Verbs
pub mod Words
