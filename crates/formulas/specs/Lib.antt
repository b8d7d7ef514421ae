pub mod Formulas
pub mod Truth
pub mod Ranges
pub mod Laws
