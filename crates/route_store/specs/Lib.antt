pub mod Announcers
pub mod Next
pub mod Rows
