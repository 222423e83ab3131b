pub mod Timer
pub mod Schedule
pub mod Idle
pub mod inner
