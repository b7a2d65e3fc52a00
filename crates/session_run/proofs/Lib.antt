pub mod GreetLemmas
pub mod GreetEnds
pub mod RefuseLemmas
pub mod RestLemmas
pub mod CloseLemmas
