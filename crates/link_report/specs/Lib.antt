pub mod Report
pub mod Answers
