pub mod Combination
pub mod CombinationLaws
pub mod Rollup
pub mod Place
pub mod Laws
