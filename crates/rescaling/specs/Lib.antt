pub mod Laws
pub mod Rescaled
