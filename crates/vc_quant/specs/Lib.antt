pub mod Narrow
pub mod Reciprocal
