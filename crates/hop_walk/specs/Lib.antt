pub mod Hops
pub mod Ways
