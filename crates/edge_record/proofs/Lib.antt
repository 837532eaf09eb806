pub mod Chunks
pub mod Laws
pub mod Compact
pub mod Shorter
pub mod Leading
