pub mod Fitting
pub mod Joining
pub mod Laws
pub mod Levels
pub mod Scaling
