pub mod Numbers
pub mod Passes
