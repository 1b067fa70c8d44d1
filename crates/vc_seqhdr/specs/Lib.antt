pub mod Formats
pub mod Whole
