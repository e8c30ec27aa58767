pub mod NoBytes
pub mod Texts
pub mod Patterns
pub mod Ways
pub mod Places
pub mod Overs
pub mod PieceParts
pub mod Runs
