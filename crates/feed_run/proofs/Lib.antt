pub mod FeedLemmas
pub mod NumberLemmas
pub mod WrittenLemmas
pub mod AnswerLemmas
pub mod StepLemmas
pub mod BeginLemmas
pub mod WholeLemmas
pub mod FirstLemmas
mod DrainLemmas
