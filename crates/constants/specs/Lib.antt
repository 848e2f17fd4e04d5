pub mod Tables
pub mod Roots
