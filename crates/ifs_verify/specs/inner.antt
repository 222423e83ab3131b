-- Definitions for private functions and for proofs.
pub mod Passes
pub mod Found
