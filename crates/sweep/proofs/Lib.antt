pub mod Ahead
pub mod Tables
