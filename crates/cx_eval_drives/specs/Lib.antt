pub mod Plain
pub mod Drives
pub mod Actives
pub mod Gathers
pub mod Drivers
