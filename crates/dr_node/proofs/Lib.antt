pub mod Seatings
pub mod Counting
pub mod Serials
pub mod Acts
pub mod Keeping
pub mod Compared
pub mod Closings
