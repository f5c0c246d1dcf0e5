pub mod NameLemmas
pub mod NameRules
pub mod PrimitiveLemmas
