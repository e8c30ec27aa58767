pub mod Codes
pub mod Places
pub mod Ranks
pub mod Rare
pub mod States
pub mod Pieces
