pub mod Literals
pub mod Maps
