mod OwnLemmas
mod FaultLemmas
mod SteppingLemmas
mod WalkLemmas
mod NodePlaces
mod FirstLemmas
pub mod DesignProp
mod PartLemmas
mod TableLemmas
mod MakingLemmas
mod CellLemmas
mod SightLemmas
mod ShownLemmas
mod AskedLemmas
mod StepLemmas
mod CycleLemmas
pub mod TestLemmas
pub mod SourceLaws
mod UsingLemmas
mod SourceLemmas
