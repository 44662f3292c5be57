pub mod Told
pub mod ToldExplored
