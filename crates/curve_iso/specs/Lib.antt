pub mod Iso
pub mod Claims
