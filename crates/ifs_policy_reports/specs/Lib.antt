pub mod Refusals
pub mod Mending
