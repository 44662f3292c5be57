-- Definitions that only contracts of private functions cite.
pub mod Walking
pub mod Noting
pub mod Drawing
