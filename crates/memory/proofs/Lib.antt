pub mod Parts
pub mod Fours
