pub mod Numbers
pub mod Values
pub mod Answers
pub mod Texts
pub mod Laws
pub mod Said
pub mod Reading
