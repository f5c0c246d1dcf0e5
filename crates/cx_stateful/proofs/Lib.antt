pub mod LocateLemmas
