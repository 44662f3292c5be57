pub mod Spellings
pub mod HeadLemmas
pub mod NumberLemmas
