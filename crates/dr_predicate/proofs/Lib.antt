pub mod Dimensions
pub mod Ends
pub mod Reaching
pub mod Gaps
