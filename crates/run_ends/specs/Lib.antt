pub mod Ends
pub mod Gathering
pub mod Leaving
pub mod Private
