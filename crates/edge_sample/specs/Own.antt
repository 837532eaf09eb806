pub mod Answered
pub mod Sampling
pub mod Traced
