pub mod Entries
pub mod Lines
pub mod Faults
pub mod Form
pub mod Room
pub mod Drafts
pub mod Rosters
