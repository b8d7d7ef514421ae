pub mod Rows
pub mod Stages
pub mod Reads
pub mod Laws
pub mod Reading
