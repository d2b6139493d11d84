pub mod Alone
pub mod Answers
pub mod DemandTwo
pub mod RunEnd
pub mod Steps
pub mod TopDown
pub mod Wishes
