pub mod Found
pub mod Ahead
pub mod Fairly
pub mod Rows
pub mod Ranked
pub mod Landed
