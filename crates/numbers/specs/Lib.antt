pub mod Refusals
pub mod Codes
pub mod Wholes
pub mod Rounding
pub mod Logs
pub mod Pairs
pub mod Counts
