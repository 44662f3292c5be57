pub mod Decisions
pub mod DecidedText
pub mod DecidedData
pub mod DecidedAnswers
