pub mod Ranged
pub mod Lying
pub mod LyingRows
pub mod Held
pub mod Alike
pub mod Shared
