pub mod ConjunctionLemmas
pub mod CaptureLemmas
pub mod DoneLemmas
mod DependLemmas
mod BoolLemmas
mod WrongLemmas
mod BreakLemmas
mod StatementLemmas
mod InvokeLemmas
mod BoundLemmas
mod LeadLemmas
