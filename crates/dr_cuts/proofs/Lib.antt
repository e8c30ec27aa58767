pub mod Each
pub mod Totals
pub mod Parts
pub mod Tiles
pub mod CutRows
pub mod Matching
