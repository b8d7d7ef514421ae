-- Crates above cite lemmas of these.
pub mod Along
pub mod Composed
pub mod Counting
-- Crates above do not cite these.
mod BySource
mod Classes
mod Histories
mod Marks
mod Sums
