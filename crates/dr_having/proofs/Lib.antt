pub mod Levels
pub mod Turning
pub mod Placing
pub mod Collecting
pub mod Gathering
pub mod StepLemmas
pub mod OutLemmas
