pub mod Places
pub mod Outcomes
pub mod Reports
pub mod Private
