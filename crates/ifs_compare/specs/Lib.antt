pub mod Renumbering
pub mod Alike
pub mod Spent
pub mod Differing
pub mod inner
