pub mod Sizes
pub mod Meaning
pub mod Records
pub mod Forgets
pub mod Sounds
