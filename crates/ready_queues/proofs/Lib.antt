pub mod Ledgers
pub mod Results
