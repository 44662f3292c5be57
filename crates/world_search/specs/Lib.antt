pub mod Lists
pub mod Systems
pub mod Landings
pub mod Answers
pub mod Free
pub mod Chosen
pub mod Claims
pub mod Private
