pub mod Places
pub mod Lengths
pub mod Blocks
pub mod Holding
pub mod Changes
pub mod Pieces
