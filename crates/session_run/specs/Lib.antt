pub mod Greeted
pub mod Greeting
pub mod Sessions
