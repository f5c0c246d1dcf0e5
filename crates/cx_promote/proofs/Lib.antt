pub mod PartsPromoted
mod OrderPromoted
pub mod ControlPromoted
pub mod DesignPromoted
pub mod NamesPromoted
pub mod AcceptedPromoted
mod OncePromoted
pub mod TargetsPromoted
mod CycleLemmas
mod PortLemmas
mod StartLemmas
mod WaitingLemmas
mod CuttingLemmas
mod ListLemmas
mod OperandLemmas
mod GroupLemmas
mod NameLemmas
mod SiteLemmas
mod MadeLemmas
pub mod PromotedLemmas
