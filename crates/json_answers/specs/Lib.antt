pub mod Answers
pub mod ExplorationData
pub mod FoundAnswers
pub mod Refusals
pub mod ReportData
pub mod SampleData
pub mod FindingData
