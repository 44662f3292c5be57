pub mod Settled
pub mod Told
