pub mod Islands
pub mod Lowering
pub mod PlainLowered
