pub mod Prepared
pub mod PreparedCurve
