pub mod Ranges
pub mod LineLemmas
pub mod LineSteps
pub mod WrittenLemmas
pub mod ManyLines
pub mod Behind
