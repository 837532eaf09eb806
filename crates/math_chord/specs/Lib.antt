pub mod Chord
pub mod Measured
pub mod Own
