pub mod SlotLemmas
pub mod SettleLemmas
pub mod ContenderLemmas
pub mod ClassLemmas
pub mod MarkingLemmas
pub mod ShardLemmas
mod MovedLemmas
