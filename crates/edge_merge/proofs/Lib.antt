pub mod Loop
pub mod Laws
pub mod Examples
