pub mod Refusal
pub mod Failures
pub mod Lines
pub mod Parts
pub mod Written
