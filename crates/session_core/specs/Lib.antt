pub mod Shown
pub mod Rules
pub mod Steps
pub mod Held
pub mod Updates
pub mod Timers
pub mod Hearing
pub mod Counts
