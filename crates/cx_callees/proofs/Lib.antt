pub mod CalledLemmas
pub mod TargetLemmas
