pub mod Rooms
pub mod Asked
pub mod Sampled
