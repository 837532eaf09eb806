pub mod Hyperbolic
