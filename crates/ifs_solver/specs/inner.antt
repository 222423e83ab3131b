pub mod Judging
pub mod Searching
pub mod Answering
pub mod Paying
pub mod Walking
pub mod Touring
pub mod Reaching
