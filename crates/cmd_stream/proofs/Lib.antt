mod SoFarPacked
mod UnitsPacked
mod PackStopping
mod Slicing
mod PackBringing
pub mod PackCompletes
mod Counting
mod PuttingEntries
mod Starting
mod Finishing
mod Taking
mod Few
mod Heading
pub mod Following
pub mod SliceRuns
pub mod PictureParts
pub mod LowParts
pub mod Showing
pub mod PlayCompletes
pub mod PlayBringing
pub mod SoFar
pub mod UnitSplits
pub mod UnitsRead
pub mod PlayStopping
pub mod Players
pub mod Rests
pub mod Playable
pub mod FirstSlices
