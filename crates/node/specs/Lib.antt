pub mod Texts
pub mod Meant
