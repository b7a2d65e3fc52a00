pub mod Names
pub mod Mails
pub mod Ends
pub mod Seats
