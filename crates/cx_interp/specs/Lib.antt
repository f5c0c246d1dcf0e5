pub mod Doings
pub mod Done
pub mod Pauses
pub mod Callees
pub mod Runs
pub mod IslandCycles
pub mod Counts
pub mod Counted
