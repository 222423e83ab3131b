pub mod Expected
pub mod Places
pub mod inner
