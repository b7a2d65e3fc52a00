pub mod Engines
pub mod Keys
pub mod Packed
pub mod Search
pub mod Views
