pub mod Paths
pub mod Steps
pub mod Tables
pub mod Filling
pub mod States
pub mod Starts
pub mod ReadStates
pub mod Reading
