pub mod EdgeLemmas
mod MoveLemmas
