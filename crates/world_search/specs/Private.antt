-- Definitions that only contracts of private functions cite.
pub mod Shapes
pub mod Flags
pub mod Paths
pub mod Graphs
pub mod Listed
pub mod Claimed
pub mod Told
