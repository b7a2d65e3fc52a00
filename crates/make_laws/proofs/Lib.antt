pub mod BodyLemmas
pub mod RosterLemmas
pub mod RecordLemmas
pub mod PieceLemmas
pub mod FeedLemmas
