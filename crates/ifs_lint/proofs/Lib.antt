pub mod Telling
pub mod Seen
pub mod Rests
pub mod Marking
pub mod Adding
pub mod Entered
pub mod Keeping
pub mod Twice
