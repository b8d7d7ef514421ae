-- Crates above cite lemmas of these.
pub mod ByNode
pub mod Levels
pub mod SameFractions
pub mod Scaled
pub mod Sums
-- Crates above do not cite these.
mod Apart
mod Forms
mod Kept
mod Numbers
mod Relabelled
