-- Crates above cite lemmas of these.
pub mod NumberLaws
pub mod ValueLaws
-- Crates above do not cite these.
mod DigitLaws
mod LineLaws
mod PartLaws
mod Pushed
mod ReadBack
mod ReadLaws
