pub mod Turns
pub mod Tasks
pub mod Stepping
pub mod Turning
pub mod Futures
pub mod Private
