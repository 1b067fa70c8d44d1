pub mod PicturePlanes
pub mod Frames
mod SeenSlots
mod RunAnswers
mod RunLists
mod MadeFrames
mod PictureLists
mod CompletedSlices
mod ReleasedPictures
pub mod UnitLists
pub mod Steps
pub mod Releases
pub mod Runs
pub mod Begun
pub mod Datagrams
pub mod AtEnd
pub mod Following
