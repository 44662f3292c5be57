pub mod Decisions
pub mod Looks
pub mod Searches
