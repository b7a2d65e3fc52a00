pub mod FillLemmas
pub mod GroupLemmas
pub mod PlaceLemmas
pub mod PackLemmas
pub mod NumberLemmas
