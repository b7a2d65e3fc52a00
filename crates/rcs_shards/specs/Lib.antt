pub mod Servers
pub mod Joins
pub mod Dirty
pub mod Fronts
pub mod Least
pub mod News
