pub mod Powers
pub mod Quotients
