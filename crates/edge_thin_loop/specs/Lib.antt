pub mod Loop
pub mod Endless
pub mod Claims
