pub mod Compiling
pub mod Made
pub mod Moves
pub mod Played
pub mod Shortening
