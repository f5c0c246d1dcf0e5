pub mod Open
pub mod Leaves
pub mod Steps
pub mod Woven
pub mod Alone
pub mod Enough
