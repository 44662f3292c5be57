pub mod Bare
pub mod BarePlain
pub mod BareValues
pub mod Firsts
pub mod Outcomes
pub mod Says
pub mod Shortened
pub mod ShortSays
