mod Pieces
mod RowMembers
mod Windows
mod RowsInTurn
mod Batches
mod EntryTokens
mod PlaceLemmas
mod ImageRows
mod LeftOut
pub mod AtOnce
mod AskedTogether
mod InTurn
