pub mod Quotient
pub mod Laws
pub mod Blocks
