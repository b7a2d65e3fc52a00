pub mod Frames
pub mod NextFeeds
pub mod Statuses
pub mod Written
pub mod Going
pub mod Whole
