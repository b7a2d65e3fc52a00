pub mod Checksums
pub mod Links
pub mod Lsas
pub mod Packets
