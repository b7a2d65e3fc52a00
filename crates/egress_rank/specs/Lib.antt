pub mod Egresses
pub mod Standings
