pub mod Blocks
pub mod BlockNumbers
pub mod PortValues
pub mod Listed
