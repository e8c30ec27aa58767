pub mod Chunks
pub mod AtKey
pub mod State
pub mod Segments
pub mod RawAnswer
pub mod Laws
