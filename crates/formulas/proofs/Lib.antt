-- Crates above cite lemmas of these.
pub mod TruthLaws
