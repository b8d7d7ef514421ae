pub mod Lines
pub mod Stats
pub mod Summary
pub mod Laws
