pub mod Holding
pub mod Crews
