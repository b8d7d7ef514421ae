-- Crates above cite lemmas of these.
pub mod CutLaws
pub mod LineLaws
pub mod TokenLaws
pub mod TreeLaws
-- Crates above do not cite these.
mod FindLaws
mod ItemLaws
mod LoopLaws
mod RawLaws
