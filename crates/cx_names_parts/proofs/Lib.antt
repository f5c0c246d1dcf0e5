pub mod Counts
pub mod Leads
pub mod Numbers
pub mod Steps
pub mod CellLemmas
pub mod MemoryLemmas
