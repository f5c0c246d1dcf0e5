pub mod PlainForms
pub mod Narrow
pub mod PlainDesigns
pub mod PlainActives
