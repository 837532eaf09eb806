pub mod Miss
pub mod Located
pub mod Own
