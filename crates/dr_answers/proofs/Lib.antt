pub mod Rows
pub mod Keys
pub mod Spans
pub mod StableOrder
pub mod AlikeRows
pub mod Alikes
pub mod OnceGroups
pub mod RearrangedRows
