pub mod Points
pub mod Comparing
pub mod Evaluating
pub mod Reporting
pub mod Telling
pub mod Numbering
pub mod Middles
