pub mod Answers
pub mod ByKind
pub mod Turns
pub mod Whole
pub mod Good
