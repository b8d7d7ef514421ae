mod Forms
mod Quotients
mod Reduced
mod Spelled
