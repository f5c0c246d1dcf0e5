pub mod Shown
pub mod Operands
pub mod Layouts
