pub mod DriverLemmas
pub mod EdgeLemmas
pub mod NodeLemmas
pub mod ThereLemmas
pub mod WayLemmas
