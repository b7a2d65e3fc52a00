pub mod Bases
pub mod Joins
