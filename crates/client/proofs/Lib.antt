pub mod Fills
pub mod Fetches
