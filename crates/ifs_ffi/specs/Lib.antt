pub mod Words
pub mod Definitions
pub mod Answers
pub mod Sessions
