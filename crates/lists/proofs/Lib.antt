pub mod Pushing
pub mod Walking
