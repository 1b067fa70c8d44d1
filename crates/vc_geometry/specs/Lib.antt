pub mod OfPlan
pub mod Rectangles
pub mod Runs
pub mod Parts
pub mod CellRects
