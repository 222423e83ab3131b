pub mod Courses
pub mod Tables
pub mod Ranges
