-- What only contracts of private functions cite.
pub mod Tables
pub mod Ranks
