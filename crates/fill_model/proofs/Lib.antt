pub mod Frames
pub mod Growing
pub mod Releases
pub mod Runs
pub mod Datagrams
pub mod AtEnd
pub mod Prefixes
pub mod Repeats
