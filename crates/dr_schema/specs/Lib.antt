pub mod Columns
pub mod WellFormed
pub mod Fits
pub mod Names
