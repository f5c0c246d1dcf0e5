pub mod Cycles
pub mod Looking
pub mod Starting
pub mod Waiting
pub mod Lengths
pub mod Cutting
pub mod Sites
