pub mod Laws
pub mod Padded
pub mod Onto
pub mod Columns
pub mod Examples
