pub mod Names
pub mod DesignOf
pub mod NameRules
