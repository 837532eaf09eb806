pub mod Best
