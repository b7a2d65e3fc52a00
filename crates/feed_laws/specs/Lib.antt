pub mod FeedReading
pub mod Cuts
pub mod WholeReading
pub mod RosterTexts
pub mod Order
pub mod Counts
