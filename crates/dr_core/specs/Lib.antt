pub mod Refusal
pub mod Steps
pub mod Asking
pub mod Run
pub mod Headline
pub mod WorkerRun
