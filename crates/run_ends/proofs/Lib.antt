pub mod Ending
pub mod Lining
pub mod Meeting
pub mod Taking
pub mod Recording
pub mod Faults
