pub mod FrameLemmas
pub mod HeadlineLemmas
pub mod AskedLemmas
pub mod ReportLemmas
pub mod TableLemmas
pub mod CommandLemmas
pub mod SummaryLemmas
