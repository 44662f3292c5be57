pub mod Spelled
pub mod Parts
pub mod Explored
pub mod SampleParts
pub mod Sampled
pub mod FirstFindings
pub mod MissingLines
pub mod NotedLemmas
