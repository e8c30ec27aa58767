pub mod Begins
pub mod Folded
pub mod Kept
pub mod Crossing
