pub mod Firsts
pub mod Refined
pub mod Counted
