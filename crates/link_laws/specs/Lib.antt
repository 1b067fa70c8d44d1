pub mod HeardStreams
pub mod FramesToSend
pub mod IndexZero
pub mod Budgets
pub mod RoundTrip
pub mod Playback
pub mod MoreHeard
