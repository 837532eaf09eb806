pub mod SinCos
