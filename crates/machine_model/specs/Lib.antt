pub mod Places
pub mod Feeders
pub mod Feeding
pub mod Machine
pub mod Next
pub mod Interleavings
