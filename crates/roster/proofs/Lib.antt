pub mod EntryLemmas
pub mod SlotLemmas
pub mod WordLemmas
pub mod RosterLemmas
pub mod FormLemmas
pub mod RoomLemmas
