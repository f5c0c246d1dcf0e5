pub mod FaultLemmas
pub mod AskedLemmas
pub mod TakeLemmas
pub mod SizeLemmas
pub mod ShortLemmas
pub mod TestLemmas
