pub mod Deeds
pub mod Ended
pub mod Running
pub mod Served
