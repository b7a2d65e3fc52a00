pub mod TextLemmas
pub mod OctetsLineLemmas
pub mod PartLemmas
pub mod EscapeLemmas
