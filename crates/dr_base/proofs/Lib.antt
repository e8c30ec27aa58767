pub mod JsonTexts
pub mod UnlistedKeys
pub mod Equality
pub mod ItemsInTurn
pub mod Truths
