mod BreakLemmas
mod CircleFacts
mod CycleLemmas
mod MarkFacts
mod PruneLemmas
mod OwnerLemmas
mod TargetLemmas
