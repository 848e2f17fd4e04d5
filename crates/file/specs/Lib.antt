pub mod Layout
pub mod Fields
pub mod Ledgers
pub mod Steps
