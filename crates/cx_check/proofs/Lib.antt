mod StageLemmas
pub mod Verdicts
