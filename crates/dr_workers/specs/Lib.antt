pub mod Shared
pub mod Gathered
