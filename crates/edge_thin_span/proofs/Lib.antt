pub mod Loops
pub mod Laws
