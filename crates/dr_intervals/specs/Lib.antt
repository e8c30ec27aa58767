pub mod Refusal
pub mod Printable
pub mod IntervalsOf
