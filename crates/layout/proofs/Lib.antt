pub mod Rows
pub mod Accepting
pub mod Taking
pub mod Planes
pub mod Prefixed
