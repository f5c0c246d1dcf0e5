mod ReadyLemmas
mod CycleLemmas
mod StartLemmas
