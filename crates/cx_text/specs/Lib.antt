pub mod Members
pub mod Places
pub mod Rules
pub mod Loading
pub mod Spans
