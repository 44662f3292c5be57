pub mod Lexing
pub mod RowLaws
pub mod Blocks
pub mod Refusals
pub mod Steps
