pub mod Ends
pub mod Forms
pub mod LinkStates
pub mod LearnedEdges
