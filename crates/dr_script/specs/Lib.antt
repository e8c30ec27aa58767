pub mod Commands
pub mod Script
pub mod Runs
pub mod Replies
pub mod Headline
