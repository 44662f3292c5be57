pub mod Bare
pub mod Keeping
pub mod Reduced
pub mod Telling
pub mod Digests
