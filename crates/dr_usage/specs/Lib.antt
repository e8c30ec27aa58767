pub mod Refusal
pub mod Usage
