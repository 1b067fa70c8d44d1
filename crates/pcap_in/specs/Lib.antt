pub mod Pcap
pub mod Frames
pub mod Reading
pub mod Feeding
