pub mod Resets
pub mod Power
pub mod Scripts
pub mod Stays
pub mod Always
pub mod ScriptLaws
pub mod Shallow
pub mod ByteLaws
