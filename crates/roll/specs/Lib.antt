pub mod Rolls
pub mod Stands
