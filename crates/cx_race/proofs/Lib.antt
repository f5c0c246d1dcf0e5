pub mod FormLemmas
pub mod CellLemmas
mod LinkLemmas
pub mod InvokeLemmas
pub mod ReadLemmas
pub mod ReadAllLemmas
pub mod Bounds
pub mod ArmLemmas
mod AssignLemmas
mod SharedLemmas
mod RaceLemmas
