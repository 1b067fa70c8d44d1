pub mod SessionWindows
pub mod HeaderOutcomes
pub mod DatagramSteps
pub mod BroughtJobs
pub mod WindowJobs
pub mod BookPlaces
pub mod OwnRuns
