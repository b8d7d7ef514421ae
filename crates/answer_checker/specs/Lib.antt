pub mod Blocks
pub mod Rules
pub mod BadLines
pub mod Verdicts
pub mod Laws
pub mod Steps
pub mod LineSteps
pub mod Truths
