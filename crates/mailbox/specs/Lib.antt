pub mod Mail
pub mod Boxes
