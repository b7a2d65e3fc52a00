pub mod LinkStream
pub mod Platform
pub mod OutRecords
pub mod SessionTurns
pub mod LinkRecords
pub mod Work
pub mod Runs
pub mod WholeFeeds
