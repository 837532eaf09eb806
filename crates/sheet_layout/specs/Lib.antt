pub mod Layout
pub mod Own
