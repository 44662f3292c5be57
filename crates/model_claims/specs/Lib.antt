pub use Rattle.claim_verdicts.specs.Judging
pub mod Leaves
pub mod Conditions
