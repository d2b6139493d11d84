pub mod Totals
pub mod Checks
pub mod Steps
