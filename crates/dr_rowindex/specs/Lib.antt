pub mod Truths
pub mod Orders
pub mod Zeros
