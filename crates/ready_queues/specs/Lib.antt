pub mod Faults
pub mod Ledger
pub mod Moments
pub mod Steals
