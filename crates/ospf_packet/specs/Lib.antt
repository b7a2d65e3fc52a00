pub mod Framing
pub mod Ends
