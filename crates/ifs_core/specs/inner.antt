-- Definitions for private functions and for proofs.
pub mod Within
pub mod Opened
