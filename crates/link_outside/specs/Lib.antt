pub mod Outlets
pub mod CaptureLaws
pub mod WireLaws
pub mod Passing
pub mod Calls
