pub mod EncodeCompletes
pub mod Laws
pub mod SentMore
pub mod Stopping
pub mod FewSent
pub mod ChosenIndices
pub mod Numbering
pub mod PuttingAll
pub mod TakingFrames
pub mod FrameSizes
pub mod LoopSteps
pub mod Carrying
pub mod FramesComplete
pub mod SendCompletes
mod Aiming
