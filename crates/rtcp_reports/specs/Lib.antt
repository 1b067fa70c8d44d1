pub mod Rtcp
pub mod Tracks
pub mod Views
pub mod Reports
