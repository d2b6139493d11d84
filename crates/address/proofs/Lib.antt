pub mod Tests
pub mod Checked
pub mod Rounding
pub mod Powers
