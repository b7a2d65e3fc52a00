pub mod Meshes
pub mod Parts
