pub mod NewSlices
pub mod Views
pub mod Filling
