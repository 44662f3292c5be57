pub mod Spacing
pub mod Spelling
pub mod Heads
pub mod MadeRefs
pub mod Private
