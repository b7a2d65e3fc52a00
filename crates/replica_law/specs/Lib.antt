pub mod Replicas
pub mod Steps
pub mod Ranks
pub mod Texts
