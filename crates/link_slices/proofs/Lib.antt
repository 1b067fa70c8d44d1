pub mod Growing
pub mod OutSlices
pub mod OutRuns
pub mod RunAnswers
pub mod RunJobs
pub mod GroupedRuns
