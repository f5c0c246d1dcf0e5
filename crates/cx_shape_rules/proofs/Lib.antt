mod PartLemmas
mod LengthLemmas
pub mod ShapeLemmas
