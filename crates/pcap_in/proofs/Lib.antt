pub mod Records
pub mod RecordSteps
pub mod Streams
pub mod Passing
pub mod FeedSteps
pub mod Splits
pub mod FileRows
