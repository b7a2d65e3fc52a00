pub mod Puts
pub mod Batches
