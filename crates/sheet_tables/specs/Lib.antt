pub mod Flattened
pub mod Own
