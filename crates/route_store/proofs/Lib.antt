pub mod RowLemmas
pub mod NumberLemmas
pub mod StoreLemmas
pub mod SeatLemmas
pub mod AnnouncerLemmas
pub mod CountedLemmas
pub mod DropLemmas
