pub mod RowLaws
pub mod ReadLaws
pub mod Joins
