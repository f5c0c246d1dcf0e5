pub mod HandNet
pub mod Alike
