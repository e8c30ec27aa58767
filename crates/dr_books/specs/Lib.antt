pub mod Unnamed
pub mod Opened
pub mod Sides
