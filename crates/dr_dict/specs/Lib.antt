pub mod Refusal
pub mod Dictionary
pub mod Sorted
pub mod TextPlaces
