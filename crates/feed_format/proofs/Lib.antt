pub mod FrontLemmas
pub mod TakingLemmas
pub mod AgainLemmas
