pub mod Ports
pub mod Ranges
pub mod Stops
pub mod Passes
pub mod Stepping
pub mod Rooms
pub mod Steps
