pub mod UseLemmas
pub mod RouteLemmas
pub mod JoinLemmas
pub mod AnnounceLemmas
pub mod ChangeLemmas
pub mod CountLemmas
pub mod LookLemmas
pub mod DropLemmas
