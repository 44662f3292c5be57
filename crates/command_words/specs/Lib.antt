pub mod Flags
pub mod Memory
pub mod Numbers
pub mod Requests
pub mod Telling
pub mod Words
