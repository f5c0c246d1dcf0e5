pub mod Kinds
pub mod Primitives
