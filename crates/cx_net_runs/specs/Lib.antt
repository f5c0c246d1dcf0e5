pub mod Standing
pub mod States
pub mod Inputs
