pub mod Bits
pub mod Inside
