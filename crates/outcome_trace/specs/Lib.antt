pub mod Answers
pub mod Lines
pub mod ReplayAnswers
pub mod ReportText
