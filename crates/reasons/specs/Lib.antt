pub mod Explained
pub mod Place
pub mod Reasons
pub mod Refusals
pub mod Schedules
pub mod Whys
