pub mod AddedTexts
pub mod Begun
pub mod Behind
pub mod Ended
pub mod Implied
pub mod Literals
pub mod RunLemmas
