pub mod Certificates
pub mod Explained
pub mod Classed
pub mod Groups
