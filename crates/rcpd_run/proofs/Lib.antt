pub mod EndsLemmas
pub mod NamesLemmas
pub mod RunLemmas
pub mod ServeLemmas
