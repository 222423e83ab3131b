pub mod Texts
pub mod Spellings
pub mod Refused
pub mod inner
pub mod FaultWords
