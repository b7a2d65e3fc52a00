pub mod WayLemmas
pub mod LawLemmas
pub mod AnswerLemmas
pub mod TurnLemmas
pub mod StepLemmas
pub mod CandidateSteps
