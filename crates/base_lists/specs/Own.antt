pub mod Way
pub mod Sub
pub mod ListOf
