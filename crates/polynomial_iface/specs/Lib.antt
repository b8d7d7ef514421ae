pub mod Places
pub mod PolyLaws
pub mod Polys
