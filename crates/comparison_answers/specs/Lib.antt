pub mod ComparisonText
pub mod ComparisonData
pub mod PairAnswers
