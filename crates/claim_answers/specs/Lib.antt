pub mod Claims
pub mod Verdicts
pub mod Unchecked
pub mod ClaimsAnswers
pub mod Drawn
pub mod Private
