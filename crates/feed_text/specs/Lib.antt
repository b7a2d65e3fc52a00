pub mod Windows
pub mod Turns
pub mod Lines
pub mod Shown
