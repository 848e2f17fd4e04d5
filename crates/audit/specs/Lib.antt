pub mod Audits
pub mod Promise
pub mod Notebook
