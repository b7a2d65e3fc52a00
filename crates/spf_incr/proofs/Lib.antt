pub mod EdgeLemmas
pub mod FollowLemmas
pub mod PairLemmas
pub mod RowLemmas
pub mod TableLemmas
