pub mod Bound
pub mod Above
