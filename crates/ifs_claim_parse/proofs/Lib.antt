pub mod Entries
pub mod Fitted
pub mod Left
pub mod Asked
pub mod Said
pub mod Signs
pub mod Defining
pub mod Lines
