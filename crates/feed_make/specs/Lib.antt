pub mod Numbers
pub mod Draws
pub mod Networks
pub mod Checksums
pub mod Routes
pub mod Feeds
pub mod Writes
