pub mod Falls
pub mod Under
