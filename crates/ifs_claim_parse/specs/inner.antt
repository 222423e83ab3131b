pub mod Left
pub mod Asked
pub mod Placing
pub mod Lines
