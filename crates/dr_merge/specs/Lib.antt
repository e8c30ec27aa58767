pub mod Joined
pub mod Refusal
