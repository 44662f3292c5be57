pub mod KnownLemmas
pub mod ReadLemmas
pub mod ScheduleLemmas
pub mod WriteLemmas
pub mod TellingLemmas
