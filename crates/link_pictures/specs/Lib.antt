pub mod FrameViews
pub mod SeenAnswers
pub mod Completing
pub mod Writing
pub mod Receiving
pub mod Standing
pub mod UnitViews
pub mod Outputs
