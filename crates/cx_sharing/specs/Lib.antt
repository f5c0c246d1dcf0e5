pub mod Uses
pub mod Meeting
pub mod Giving
pub mod SharedDesign
pub mod Following
pub mod SharedTree
pub mod SharedRows
