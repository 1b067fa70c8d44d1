pub mod Signs
pub mod Watching
pub mod Recorders
pub mod Recording
pub mod Replayers
pub mod ReplayLaws
pub mod Replaying
