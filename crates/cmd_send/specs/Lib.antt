pub mod Encodes
pub mod FramesSent
pub mod Counted
pub mod Sends
pub mod Looping
pub mod Steps
pub mod OverWire
