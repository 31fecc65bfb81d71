pub mod Analyses
pub mod Availability
pub mod Flow
pub mod Worklist
