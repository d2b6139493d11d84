pub mod Moving
pub mod Replacing
