pub mod Ranging
pub mod Storing
