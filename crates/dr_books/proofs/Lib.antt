pub mod Placed
pub mod Openings
