pub mod Search
pub mod Steps
