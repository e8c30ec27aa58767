pub mod UsageLemmas
