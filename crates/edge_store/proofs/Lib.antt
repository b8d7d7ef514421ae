-- Crates above cite lemmas of these.
pub mod Counts
pub mod Ranges
-- Crates above do not cite these.
mod Filling
mod Places
mod Shown
