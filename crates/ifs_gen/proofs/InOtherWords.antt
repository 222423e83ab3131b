-- Proofs of laws that say a definition in other words.
pub mod FirstShared
pub mod Heights
