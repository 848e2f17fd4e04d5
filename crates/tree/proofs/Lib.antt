pub mod Subtrees
pub mod Totals
