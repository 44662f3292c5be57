-- The definitions that the contracts of private functions cite.
pub mod Met
