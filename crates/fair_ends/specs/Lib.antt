pub mod Fair
pub mod Private
