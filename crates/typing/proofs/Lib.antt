-- Crates above cite lemmas of these.
pub mod Ascending
pub mod Coarser
pub mod EqualityLaws
pub mod FirstPlaces
pub mod InOrder
pub mod KeptWeights
pub mod MapLaws
pub mod NormalLaws
pub mod OrderLaws
pub mod OwnLabels
pub mod ReadyLaws
pub mod RelabelLaws
pub mod RelabelSteps
pub mod StableLaws
pub mod TermFacts
pub mod Tests
pub mod Totals
pub mod WeightSums
pub mod WeightTests
pub mod Weights
pub mod Within
-- Crates above do not cite these.
mod Canonical
mod MovedLemmas
