pub mod Standing
pub mod IslandTakes
pub mod AtLeaves
pub mod Shown
pub mod Turning
pub mod Wired
pub mod GuardPorts
pub mod IslandNumbers
