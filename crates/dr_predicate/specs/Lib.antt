pub mod Within
pub mod Ends
pub mod Ranges
pub mod Match
pub mod Asked
