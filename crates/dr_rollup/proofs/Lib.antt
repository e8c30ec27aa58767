pub mod Contributing
pub mod Keys
pub mod Rows
pub mod Flat
pub mod Growing
pub mod Adding
pub mod Standing
pub mod Copied
