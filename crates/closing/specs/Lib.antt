pub mod Closings
pub mod Holdings
pub mod Standings
pub mod Accounts
