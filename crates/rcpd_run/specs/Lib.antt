pub mod Daemons
pub mod Ends
pub mod Names
