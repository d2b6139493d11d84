pub mod Any
pub mod Filling
pub mod Good
pub mod Judging
pub mod Order
pub mod Sentences
pub mod Walking
pub mod Whole
