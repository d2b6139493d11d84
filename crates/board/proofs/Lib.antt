pub mod Regs
pub mod Passes
pub mod Asks
pub mod Whole
pub mod Good
pub mod Conditions
pub mod Cases
