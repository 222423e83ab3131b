pub mod Moves
pub mod Claims
pub mod Asked
pub mod Told
pub mod Changes
pub mod Known
pub mod inner
