pub mod Heads
pub mod Entries
pub mod EntrySteps
pub mod Puts
mod Buffered
