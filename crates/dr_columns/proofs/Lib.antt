pub mod NarrowLemmas
pub mod ValueLemmas
pub mod RunLemmas
pub mod AtOnce
