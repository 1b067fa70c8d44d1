pub mod FrameBytes
pub mod Memory
pub mod Taking
pub mod Reading
pub mod WholeFrames
pub mod Samples
pub mod Shapes
