pub mod Inlining
pub mod Names
pub mod Renamed
pub mod Kept
