pub mod Events
pub mod Cores
pub mod Hearing
pub mod Pictures
pub mod Frames
