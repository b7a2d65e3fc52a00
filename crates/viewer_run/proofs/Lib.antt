pub mod PieceLemmas
pub mod ViewLemmas
