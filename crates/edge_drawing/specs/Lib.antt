pub mod Range
pub mod Own
