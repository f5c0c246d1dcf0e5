pub mod Readings
pub mod Whole
pub mod Faults
