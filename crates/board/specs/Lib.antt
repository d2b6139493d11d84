pub mod Board
pub mod Conditions
pub mod Pairs
pub mod Corrections
pub mod Steps
