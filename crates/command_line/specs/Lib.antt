pub mod Parser
pub mod Lines
pub mod Requests
pub mod Plain
pub mod Asked
