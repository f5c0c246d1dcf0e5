pub mod DumpLemmas
pub mod LoadLemmas
pub mod KnownValues
pub mod Places
