pub mod TrialParts
pub mod TrialControl
pub mod TrialTree
