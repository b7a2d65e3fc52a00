pub mod EndLemmas
pub mod FormLemmas
pub mod GroupLemmas
pub mod LinkStateLemmas
pub mod EdgeLemmas
