pub mod Answers
pub mod Nearness
pub mod Patterns
