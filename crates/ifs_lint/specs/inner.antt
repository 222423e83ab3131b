pub mod Going
pub mod Marking
pub mod Results
pub mod Seen
