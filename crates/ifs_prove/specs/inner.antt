pub mod Judging
pub mod Facts
pub mod Making
pub mod Keeping
