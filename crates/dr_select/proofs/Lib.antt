pub mod KeptLemmas
pub mod KeyLemmas
pub mod PartLemmas
