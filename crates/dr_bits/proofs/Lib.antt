pub mod BitLemmas
