pub mod Modulo
pub mod Cases
pub mod Examples
pub mod LastBits
pub mod Factors
