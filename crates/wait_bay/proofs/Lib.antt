pub mod Keeping
pub mod Remains
