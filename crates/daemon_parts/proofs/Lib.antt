pub mod MeshLemmas
pub mod PartsLemmas
