pub mod Books
pub mod Certified
pub mod Cited
pub mod CitedLaws
pub mod Keeping
pub mod Making
pub mod SortedLayers
