pub mod Turns
pub mod E820
