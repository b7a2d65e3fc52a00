pub mod Cells
pub mod Tables
pub mod Places
pub mod Columns
pub mod Histories
