pub mod SampleRuns
pub mod ReadBack
pub mod FrameEnds
pub mod Holding
pub mod SampleBytes
pub mod PartsOut
pub mod Taken
