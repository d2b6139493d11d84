pub mod Answers
pub mod Numbers
pub mod Plan
pub mod Sentences
pub mod Steps
