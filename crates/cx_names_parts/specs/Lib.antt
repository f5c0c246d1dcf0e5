pub mod Leading
pub mod Memories
