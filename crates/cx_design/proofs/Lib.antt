pub mod DesignFacts
pub mod GroupsLemmas
