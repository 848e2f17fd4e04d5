pub mod Meaning
pub mod Counts
pub mod Calls
