pub mod Eligible
pub mod Places
pub mod Steps
