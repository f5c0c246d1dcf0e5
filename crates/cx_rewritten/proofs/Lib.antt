mod SourceOrder
mod BareNames
mod BareParts
mod BareControl
mod BareItems
mod BareRules
mod BareTrees
mod WrittenOrder
pub mod SameTrees
mod CommentLemmas
mod PlaceNames
pub mod RisingLemmas
pub mod ReadLemmas
pub mod NumberLemmas
pub mod TreeDesign
pub mod NamesShared
pub mod PrintableShared
pub mod DesignShared
mod LineLemmas
mod OrderLemmas
mod NamedOrder
pub mod SharedLemmas
mod KeptNames
pub mod KnownFaults
pub mod AlikeLemmas
mod PromotedCycles
mod PromotedOrder
mod PromotedPrintable
pub mod PromotedLemmas
