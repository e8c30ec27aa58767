pub mod Refusal
pub mod Folds
