pub mod Running
pub mod CutSteps
pub mod RawRuns
pub mod WorkerRuns
