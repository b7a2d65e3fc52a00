pub mod FaultCodes
pub mod DueLemmas
