pub mod Fill
pub mod Suits
pub mod Fetch
