pub mod Numbers
pub mod Risk
