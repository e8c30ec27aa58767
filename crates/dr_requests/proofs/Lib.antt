pub mod WordLemmas
pub mod GrammarLemmas
