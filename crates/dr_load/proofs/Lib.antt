pub mod Crossing
pub mod Tellings
