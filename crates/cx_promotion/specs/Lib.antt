pub mod Promotable
pub mod Rewriting
pub mod Made
