pub mod Rests
pub mod Agreeing
pub mod Arms
pub mod Ran
