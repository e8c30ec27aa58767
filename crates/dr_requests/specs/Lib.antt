pub mod Refusal
pub mod Request
pub mod Seen
pub mod Grammar
