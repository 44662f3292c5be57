pub mod Led
pub mod Lists
pub mod Histories
pub mod Places
pub mod AfterATurn
pub mod Schedules
