pub mod Codes
pub mod Falls
pub mod Combined
pub mod Reading
pub mod Parsers
