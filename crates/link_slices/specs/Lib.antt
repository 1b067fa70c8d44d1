pub mod Calls
pub mod Jobs
