pub mod ImageRows
pub mod Images
mod Orders
pub mod SameRows
mod InOrder
mod SameKeys
