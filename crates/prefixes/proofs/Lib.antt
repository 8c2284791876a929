pub mod Fitting
pub mod Writing
pub mod Same
pub mod Behind
pub mod Finding
pub mod Prefixing
