pub mod Outside
mod SampleFaults
pub mod Numbered
pub mod Frames
mod FramePictures
pub mod PackedRuns
mod PutPictures
pub mod PayloadLengths
pub mod Cutting
mod Putting
pub mod SentAsPacked
pub mod Rooms
mod SharedCells
mod CodedLengths
pub mod SentBytes
pub mod Heads
pub mod SentFrames
