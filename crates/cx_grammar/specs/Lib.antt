pub mod Terminals
pub mod Grammar
pub mod Reading
pub mod Calyx
pub mod Parsing
