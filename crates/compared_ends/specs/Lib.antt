pub mod Views
pub mod Comparisons
pub mod Private
