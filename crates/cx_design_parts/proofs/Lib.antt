mod PortLemmas
pub mod OutputLemmas
pub mod Order
mod First
pub mod Lists
pub mod Families
pub mod Stable
mod SourceOrder
mod CellLemmas
mod NameLemmas
pub mod ReadLemmas
