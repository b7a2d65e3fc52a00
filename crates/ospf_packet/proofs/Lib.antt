pub mod Filling
pub mod Reading
pub mod Streams
pub mod Runs
