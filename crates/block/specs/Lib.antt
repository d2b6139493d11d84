pub mod Block
pub mod Checks
