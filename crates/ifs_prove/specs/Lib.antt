pub mod Claiming
pub mod Breaking
pub mod Verdicts
pub mod inner
