pub mod Step
pub mod Truncation
pub mod Nesting
pub mod Name
pub mod Refusal
pub mod Reading
pub mod Buckets
