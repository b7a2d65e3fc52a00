pub mod EdgeLemmas
mod FollowingLemmas
pub mod StreamLemmas
mod TakingLemmas
pub mod YoungLemmas
mod ReadLemmas
mod RosterLemmas
