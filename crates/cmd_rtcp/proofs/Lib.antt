pub mod CompoundSizes
pub mod Taking
pub mod Ending
pub mod Hearing
pub mod Concluded
pub mod Shown
pub mod ReportCompletes
