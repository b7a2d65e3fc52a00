pub mod UpdateLemmas
pub mod OpenLemmas
pub mod StepLemmas
pub mod RuleLemmas
pub mod RunLemmas
pub mod AnswerLemmas
pub mod CountLemmas
