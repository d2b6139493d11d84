pub mod Pages
pub mod Cut
pub mod Sentences
pub mod Calls
pub mod Steps
