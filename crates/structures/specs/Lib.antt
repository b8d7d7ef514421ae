pub mod Structures
pub mod Walk
pub mod Laws
