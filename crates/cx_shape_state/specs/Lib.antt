pub mod Waits
pub mod Resting
pub mod Joining
pub mod Tells
pub mod StateBreaks
