pub mod Part
pub mod Four
