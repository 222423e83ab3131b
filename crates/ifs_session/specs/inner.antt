-- Contracts of private functions.
pub mod Opening
pub mod Parsing
pub mod Reading
pub mod Serving
pub mod Connections
pub mod Words
