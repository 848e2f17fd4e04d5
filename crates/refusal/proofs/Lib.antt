pub mod Exits
pub mod Buffers
pub mod Rows
