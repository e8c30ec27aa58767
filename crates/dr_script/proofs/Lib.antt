pub mod DigitLemmas
pub mod ScriptSteps
pub mod RawScripts
pub mod AskingErrors
pub mod Refusals
