pub mod Pieces
pub mod Viewing
