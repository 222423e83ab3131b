pub mod Pieces
pub mod Ropes
pub mod Kept
pub mod Known
pub mod Turns
pub mod Gaps
