pub mod Laws
pub mod Systems
