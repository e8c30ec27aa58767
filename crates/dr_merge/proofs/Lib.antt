mod Adding
mod Works
pub mod Rolled
pub mod Joins
pub mod Alone
