pub mod Statuses
pub use Rattle.suite_statuses.specs.Verdicts
