pub mod Names
pub mod Widths
pub mod Origins
pub mod Drivers
pub mod Edges
pub mod MainPorts
pub mod Memories
pub mod Counts
