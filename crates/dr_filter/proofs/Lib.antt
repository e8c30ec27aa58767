pub mod DistinctValues
pub mod EveryMember
pub mod Levels
