pub mod Begun
pub mod Divided
pub mod Each
pub mod Fitting
pub mod Literals
pub mod Runs
pub mod Sides
