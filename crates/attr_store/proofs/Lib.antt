pub mod KeptLemmas
pub mod JoinedLemmas
pub mod CountLemmas
