pub mod Outputs
pub mod Breaks
pub mod Answers
pub mod Numbered
pub mod Plain
pub mod Items
pub mod Cells
