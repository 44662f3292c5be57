pub mod OutcomesFound
pub mod OutcomesShown
pub mod OutcomesData
pub mod SaysFound
pub mod OutcomeAnswers
