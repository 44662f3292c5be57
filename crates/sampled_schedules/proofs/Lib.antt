pub mod Tallies
pub mod Walked
pub mod Drawings
pub mod Claims
