pub mod Answered
pub mod Decided
pub mod Statuses
