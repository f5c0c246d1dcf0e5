pub mod Bytes
pub mod Lex
pub mod Reading
pub mod Classes
pub mod Views
