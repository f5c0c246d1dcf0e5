pub mod DriveLemmas
pub mod ActiveLemmas
pub mod StepLemmas
pub mod GatherLemmas
pub mod DriverLemmas
