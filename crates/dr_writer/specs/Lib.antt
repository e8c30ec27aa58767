pub mod Outputs
pub mod Written
