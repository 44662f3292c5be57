-- Definitions that only contracts of private functions cite.
pub mod Asking
pub mod Moving
pub mod Settling
