pub mod Partial
pub mod Grouped
pub mod Known
pub mod Runs
pub mod Laws
