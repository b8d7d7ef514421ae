-- Crates above cite lemmas of these.
pub mod Counting
pub mod Lists
-- Crates above do not cite these.
mod Marking
mod Ranges
mod Splitting
mod Viewed
