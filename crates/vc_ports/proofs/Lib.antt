pub mod Fronts
pub mod Given
pub mod Growing
pub mod Counts
pub mod Storing
pub mod Coming
