pub mod ResultOrder
pub mod AnyOrder
pub mod Numbered
pub mod Printing
pub mod Kept
pub mod AtOnce
