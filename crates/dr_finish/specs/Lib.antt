pub mod Finished
pub mod RowOrder
pub mod Meeting
