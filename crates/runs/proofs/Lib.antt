pub mod Along
pub mod Steps
pub mod Walks
pub mod Window
