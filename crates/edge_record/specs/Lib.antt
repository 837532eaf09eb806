pub mod Chain
pub mod Own
