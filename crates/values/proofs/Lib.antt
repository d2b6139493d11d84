pub mod Nodes
pub mod Corrections
pub mod Properties
pub mod Children
pub mod OneByOne
