pub mod Blocks
pub mod Fields
pub mod Headers
pub mod Kept
pub mod Layouts
pub mod Reading
pub mod Same
