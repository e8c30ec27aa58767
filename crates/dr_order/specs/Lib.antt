pub mod Refusal
pub mod Order
pub mod Deciding
pub mod Fields
pub mod ColumnOf
pub mod LimitSpecOf
