pub mod Times
pub mod Blocks
pub mod Open
pub mod Held
pub mod Ranges
