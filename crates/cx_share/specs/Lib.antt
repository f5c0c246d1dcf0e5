pub mod Marks
pub mod Bits
pub mod Using
pub mod Tables
pub mod Givings
pub mod Naming
