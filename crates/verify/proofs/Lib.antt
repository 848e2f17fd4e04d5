pub mod Amounts
pub mod Climbs
pub mod Shapes
pub mod Under
pub mod Whole
pub mod Back
pub mod Passing
