pub mod Foreseen
pub mod Courses
