pub mod ControlLemmas
pub mod KnownLowering
