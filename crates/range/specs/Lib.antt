pub mod Outcomes
pub mod Steps
