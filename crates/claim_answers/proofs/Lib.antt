pub mod Pairs
pub mod Looks
pub mod Seen
