-- Contracts of private functions.
pub mod Looking
