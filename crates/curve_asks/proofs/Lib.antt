pub mod Calm
pub mod Farthest
pub mod Laws
pub mod Never
