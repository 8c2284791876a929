pub mod Coordinates
pub mod Bytes
pub mod Lookup
pub mod Laws
pub mod Searching
