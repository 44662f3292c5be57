pub mod Lexemes
pub mod Seen
pub mod Rows
pub mod Faults
pub mod Reading
