pub mod HandNetLemmas
pub mod HandNetParts
mod AlikeLemmas
