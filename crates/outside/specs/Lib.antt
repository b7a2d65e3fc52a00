pub mod Told
pub mod Fake
pub mod Links
pub mod Nets
pub mod Marks
