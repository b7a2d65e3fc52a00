pub mod Parts
pub mod Records
pub mod Heads
pub mod Texts
pub mod Ends
pub mod Joining
