mod Mentioned
mod Decided
mod Places
pub mod Replaced
pub mod Lists
pub mod Joined
mod Inner
mod Gathered
mod Filled
mod Timed
mod Fitting
mod Refusals
mod OneRefusal
pub mod FirstUses
mod Running
mod Ordered
mod Whole
mod Named
pub mod Unresolved
pub mod MentionedTests
pub mod Visited
mod Said
mod AtTokens
