pub mod Texts
pub mod SortedTexts
pub mod AddedTexts
pub mod FarTexts
pub mod PlacedTexts
