pub mod PlaneLines
pub mod Weaving
pub mod TransformLaws
pub mod TransformLocality
pub mod PlaneGrowth
pub mod Levels
pub mod PlaneSteps
pub mod Copies
pub mod Grids
pub mod Fills
mod LowCells
mod BandRows
mod AnalysedParts
mod PartedBands
mod HighestParted
mod RowHalves
mod OutputRows
mod HighestLevel
pub mod Clipping
mod NarrowColumns
pub mod LayoutLaws
pub mod Turns
mod TurnedLevels
mod CarriedBounds
pub mod ExactSides
