pub mod TreeLemmas
mod StepLemmas
mod WayLemmas
mod WireLemmas
pub mod PreOrder
pub mod FillLemmas
pub mod TableLemmas
pub mod Shapes
pub mod Takes
pub mod StartLemmas
pub mod StartsStand
pub mod AlikeLemmas
pub mod StandLemmas
pub mod ReadLemmas
pub mod ChangeLemmas
mod WriteLemmas
mod MainLemmas
pub mod HeldLemmas
pub mod TablesLemmas
pub mod StatesLemmas
