pub mod TimelineAnswers
pub mod ExploreTimelines
pub mod PictureAnswers
