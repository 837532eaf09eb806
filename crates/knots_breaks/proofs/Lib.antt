pub mod Passing
pub mod Storing
pub mod Answers
pub mod Laws
mod Examples
