pub mod Magnitudes
pub mod Quotients
pub mod Elements
