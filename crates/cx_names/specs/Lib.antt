pub mod Sites
pub mod Calls
pub mod Added
pub mod Targets
pub mod Refused
