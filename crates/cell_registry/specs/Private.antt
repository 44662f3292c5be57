-- Definitions that only contracts of private functions and views of private types cite.
pub mod Kept
pub mod Shown
