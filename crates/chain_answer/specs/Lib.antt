pub mod Printed
pub mod Own
