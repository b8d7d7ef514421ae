pub mod Faults
pub mod Reads
pub mod Writes
pub mod FolderState
pub mod SinkState
pub mod Files
pub mod Whole
