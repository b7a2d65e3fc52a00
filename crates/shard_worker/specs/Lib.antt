pub mod Runs
pub mod Offers
pub mod Ends
pub mod Workers
pub mod Turns
