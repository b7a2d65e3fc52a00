pub mod Igp
pub mod Streams
pub mod Reading
pub mod Following
