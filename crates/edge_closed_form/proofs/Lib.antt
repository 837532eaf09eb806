pub mod Miss
pub mod Squares
pub mod Located
