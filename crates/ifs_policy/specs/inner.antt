pub mod Seen
pub mod Entries
pub mod Sized
pub mod Walked
