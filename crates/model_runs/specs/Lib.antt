pub mod Verdicts
pub mod Seeing
pub mod Marks
pub mod Deciding
pub mod Moments
pub mod Holding
pub mod Private
