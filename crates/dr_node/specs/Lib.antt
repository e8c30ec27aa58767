pub mod Seats
pub mod Kept
pub mod Refusal
pub mod Acting
pub mod Closing
pub mod Places
