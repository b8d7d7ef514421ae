pub mod Agreement
pub mod Shapes
pub mod Numbered
pub mod Desorted
pub mod Laws
