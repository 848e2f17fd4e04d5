pub mod Paths
pub mod Checks
pub mod Walks
