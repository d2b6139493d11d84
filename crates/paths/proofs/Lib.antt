pub mod Bytes
pub mod Seeking
pub mod Listing
pub mod Holding
pub mod Cases
