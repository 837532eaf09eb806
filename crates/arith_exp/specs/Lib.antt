pub mod Exp
pub mod Claims
pub mod Own
