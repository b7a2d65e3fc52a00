pub mod Ranges
pub mod Writing
pub mod Parts
pub mod Checksums
pub mod Networks
pub mod Lengths
pub mod Changes
