pub mod ShapeBreaks
pub mod Measures
