pub mod Loops
pub mod Ways
pub mod Laws
pub mod Examples
