pub mod AnswerLemmas
pub mod Behind
pub mod FoundLemmas
pub mod FoundPlain
pub mod FoundValues
pub mod Plain
pub mod FindingLemmas
