pub mod Eligible
pub mod Extremes
pub mod Fits
pub mod Stretches
pub mod Ways
pub mod Orders
