pub mod Numbered
pub mod Indexed
pub mod Scopes
