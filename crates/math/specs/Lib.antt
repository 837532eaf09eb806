pub mod Math
