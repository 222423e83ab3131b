-- Definitions for the contracts of private functions.
pub mod Lists
pub mod Words
pub mod Forms
pub mod Building
pub mod Reading
