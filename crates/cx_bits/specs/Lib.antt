pub mod BitVector
pub mod Operators
