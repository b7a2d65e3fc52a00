pub mod Reading
pub mod Taking
pub mod HeaderOf
pub mod Numbers
pub mod Writing
