pub mod Opened
pub mod Faults
pub mod HeaderFields
pub mod Written
pub mod Cutting
pub mod Ends
