pub mod Writing
pub mod Walking
pub mod Answers
pub mod Faults
pub mod Room
