pub mod KnownNames
pub mod NameRulesLemmas
pub mod NamesLemmas
pub mod DesignOfLemmas
