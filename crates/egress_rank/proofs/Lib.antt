pub mod EgressLemmas
mod MarkLemmas
mod StandingLemmas
