pub mod Streams
pub mod Packing
pub mod Packed
