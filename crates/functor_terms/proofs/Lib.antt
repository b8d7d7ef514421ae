-- Crates above cite lemmas of these.
pub mod FewChildren
pub mod Folds
pub mod NamesLemmas
pub mod PartFolds
pub mod PartLaws
pub mod ReadingLaws
pub mod TermLaws
pub mod TextLaws
pub mod TextSteps
pub mod WordLemmas
-- Crates above do not cite these.
mod ChainLoop
mod CutLaws
mod DescentLaws
mod DigitLaws
mod FirstSign
mod GiveLaws
mod GrammarLaws
mod ItemLaws
mod LabelLaws
mod LoopLaws
mod MonotoneLaws
mod OverLaws
mod SignTests
mod TermReading
mod TextTokens
mod WordLoop
