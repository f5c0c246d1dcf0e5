mod Joins
mod Cells
mod Graph
pub mod Names
mod RestLemmas
mod WaitLemmas
mod InnerLemmas
pub mod Found
pub mod StateLemmas
