pub mod FactSets
pub mod Asking
pub mod Budgets
pub mod Places
pub mod Situations
pub mod Reaching
pub mod inner
pub use Rattle.ifs_gen.specs.Events
