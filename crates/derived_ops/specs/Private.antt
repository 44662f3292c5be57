-- Definitions that only contracts of private functions cite.
pub mod Closings
pub mod Heads
pub mod Sequences
pub mod Shapes
pub mod Writing
