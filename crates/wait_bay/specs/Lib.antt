pub mod Names
pub mod Rule
pub mod Bays
