pub mod PieceLemmas
pub mod DoneLemmas
pub mod GoesLemmas
pub mod ServedLemmas
pub mod OpeningLemmas
