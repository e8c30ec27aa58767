pub mod Policy
pub mod FailureRefusal
pub mod Refusal
pub mod Load
pub mod Totals
pub mod Shown
pub mod OfSeat
