pub mod Truths
pub mod ReadSigns
pub mod Watched
pub mod RecordLoop
pub mod RecordEnds
pub mod RecordCompletes
pub mod ReplayEnds
pub mod ReplayCompletes
