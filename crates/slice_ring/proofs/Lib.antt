pub mod Completing
pub mod RingSteps
