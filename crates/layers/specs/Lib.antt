pub mod Nest
pub mod NestLabels
pub mod Bits
pub mod Packing
pub mod Meanings
pub mod LayerLaws
pub mod Tables
