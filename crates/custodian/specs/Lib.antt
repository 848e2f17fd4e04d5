pub mod Keeping
pub mod States
