pub mod Draws
pub mod Structures
pub mod Text
