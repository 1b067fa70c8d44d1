pub mod Filled
pub mod FilledSessions
pub mod ReleasedFrames
