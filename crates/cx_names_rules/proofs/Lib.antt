pub mod FoundLemmas
pub mod FoundRules
pub mod OrderLemmas
pub mod VisitLemmas
