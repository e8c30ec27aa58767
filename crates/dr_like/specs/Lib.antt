pub mod Like
pub mod Fits
pub mod Letters
pub mod Pieces
pub mod Over
pub mod Left
