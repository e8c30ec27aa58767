pub mod TruncationLemmas
pub mod StepLemmas
pub mod NestingLemmas
pub mod BucketsLemmas
