pub mod Satisfaction
pub mod Modalities
pub mod Laws
