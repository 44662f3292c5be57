pub mod FormLemmas
pub mod RangeLemmas
pub mod TestLemmas
pub mod WantLemmas
pub mod WordLemmas
pub mod UnitLemmas
pub mod ClaimLemmas
pub mod UnmarkLemmas
