pub mod Scopes
pub mod ScopeValues
pub mod Drafts
pub mod Shapes
