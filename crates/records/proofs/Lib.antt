pub mod Checking
pub mod Copying
pub mod Halving
pub mod Parts
pub mod Placing
pub mod Tables
pub mod Totals
pub mod Zeros
