pub mod Sampled
pub mod Claims
pub mod Private
