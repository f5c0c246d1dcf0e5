pub mod Overs
pub mod Memories
pub mod ModuleSteps
pub mod Limbs
pub mod FirstLemmas
pub mod Outputs
