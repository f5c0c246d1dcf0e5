pub mod Circles
pub mod CombBreaks
pub mod Pruning
pub mod Owning
