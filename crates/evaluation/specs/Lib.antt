pub mod Truths
pub mod Packed
pub mod Uses
pub mod Rows
pub mod Evaluations
