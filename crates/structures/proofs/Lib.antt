-- Crates above cite lemmas of these.
pub mod Arities
pub mod AtChild
pub mod Bounded
pub mod Chosen
pub mod Expands
pub mod GoodChildren
pub mod Leaves
pub mod Sound
pub mod WalkEnds
-- Crates above do not cite these.
mod ChildAt
mod Unmerged
mod Walked
