pub mod Contents
pub mod Ways
