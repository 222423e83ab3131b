-- Contracts of private functions.
pub mod Digits
