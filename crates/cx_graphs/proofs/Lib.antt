pub mod Additions
pub mod Lists
pub mod Marks
pub mod WalkLemmas
pub mod Ways
mod ReachWays
mod Counting
pub mod Ends
pub mod EdgeLemmas
mod Takes
mod SearchLemmas
pub mod Members
mod OwnerLemmas
mod TallyAdditions
mod Beginnings
mod Sharing
mod Spreading
pub mod Least
pub mod GraphsLemmas
