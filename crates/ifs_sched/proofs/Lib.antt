pub mod ByIndex
pub mod Finishing
pub mod Fronts
pub mod Masks
pub mod Starts
pub mod Entries
pub mod Ticking
pub mod Waiting
