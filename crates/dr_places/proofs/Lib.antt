pub mod WordLemmas
pub mod BitLemmas
pub mod BeginLemmas
pub mod CombLemmas
pub mod DigitLemmas
pub mod LetterLemmas
pub mod StandingLemmas
pub mod OwnLemmas
