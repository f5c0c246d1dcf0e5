pub mod TestLemmas
pub mod DigitLemmas
pub mod ByteLemmas
pub mod SignLemmas
pub mod AgainLemmas
pub mod TakesLemmas
pub mod WholeLemmas
