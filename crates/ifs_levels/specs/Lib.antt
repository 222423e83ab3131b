pub mod Metering
pub mod Ranges
pub mod Levels
pub mod Outcomes
pub mod Rows
pub mod Within
pub mod inner
