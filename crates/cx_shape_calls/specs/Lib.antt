pub mod Forms
pub mod Inputs
pub mod CallBreaks
pub mod Decisions
pub mod StaticInvokes
