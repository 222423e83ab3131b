-- Definitions for private functions and for proofs.
pub mod Numbers
pub mod MachineState
pub mod Decoding
