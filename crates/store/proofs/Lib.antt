pub mod Inside
pub mod Tallies
pub mod Refusals
pub mod Rooms
pub mod Props
