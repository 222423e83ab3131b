pub mod Clean
pub mod Kinds
pub mod Naming
pub mod Rounds
pub mod Told
pub mod inner
