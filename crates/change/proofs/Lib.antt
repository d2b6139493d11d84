pub mod Allowing
pub mod Filling
pub mod Meeting
pub mod Rebuilding
pub mod Splicing
pub mod Tagged
