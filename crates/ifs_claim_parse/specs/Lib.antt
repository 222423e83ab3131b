pub mod Words
pub mod Conditions
pub mod Says
pub mod Macros
pub mod Files
pub mod inner
