-- Crates above cite lemmas of these.
pub mod FitNumerals
pub mod FitSound
pub mod Inversions
pub mod JoinLaws
pub mod ListLengths
pub mod ScaleSound
pub mod ScaledFractions
pub mod TreeLengths
-- Crates above do not cite these.
mod FitFacts
mod FitLoops
mod FitWeights
mod JoinLoops
mod ScaleFacts
mod ScaleLoops
mod ScaledBounds
mod Shapes
mod SumFacts
