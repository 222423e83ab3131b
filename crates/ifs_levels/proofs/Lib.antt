pub mod Shifts
pub mod Levels
pub mod Covering
pub mod Coming
pub mod Tables
pub mod Spending
