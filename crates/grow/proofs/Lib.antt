pub mod Stored
pub mod Levels
pub mod Closes
