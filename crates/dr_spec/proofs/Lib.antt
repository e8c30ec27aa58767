pub mod DistinctNames
pub mod WellFormedSchemas
pub mod Steps
