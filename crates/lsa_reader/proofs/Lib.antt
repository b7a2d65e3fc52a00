pub mod Sums
pub mod LinkLists
pub mod FirstFault
pub mod Walks
pub mod Spelling
pub mod ReadAgain
