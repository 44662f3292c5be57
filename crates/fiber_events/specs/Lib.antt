pub mod Events
pub mod Private
