pub mod WidthBreaks
pub mod Binds
