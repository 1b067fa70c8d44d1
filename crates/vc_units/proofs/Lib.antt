pub mod Infos
pub mod Streams
pub mod Written
pub mod UnitSteps
pub mod Behind
