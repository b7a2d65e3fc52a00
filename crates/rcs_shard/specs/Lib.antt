pub mod Shards
pub mod Slots
pub mod Joins
pub mod Settling
pub mod Following
