pub mod FirstLemmas
pub mod MarkLemmas
