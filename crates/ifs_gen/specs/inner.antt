-- Definitions for the contracts of private functions.
pub mod Emission
pub mod Measures
pub mod Marks
pub mod Amounts
pub mod Keys
pub mod Meetings
pub mod Costs
