mod Gathered
mod PushedNumbers
mod WalkedSlices
mod Transformed
pub mod PackedBits
mod SmallNumbers
mod ThreeParts
mod Judged
mod SlicesInTurn
mod JoinedParts
pub mod CodedRuns
mod FirstSlices
mod PlanFacts
mod BandParts
mod CopiedSlices
mod LengthsFall
mod LeastFitting
