pub mod Closures
pub mod Positions
pub mod Samples
pub mod SampledIslands
pub mod Examples
pub mod Widths
