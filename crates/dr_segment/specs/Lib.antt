pub mod Encoding
pub mod Columns
pub mod Heads
pub mod Tables
