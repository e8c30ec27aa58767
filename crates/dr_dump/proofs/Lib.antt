pub mod RowLemmas
pub mod SpellingLemmas
