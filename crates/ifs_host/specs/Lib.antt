pub mod Runners
pub mod Children
pub mod RunnerHosts
pub mod Files
pub mod Shells
pub mod Reloads
pub mod inner
pub mod Hearing
