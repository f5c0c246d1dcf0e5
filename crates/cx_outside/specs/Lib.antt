pub mod Counts
pub mod Reading
pub mod Failures
pub mod Writing
pub mod InMemory
pub mod MemoryReads
pub mod Edge
