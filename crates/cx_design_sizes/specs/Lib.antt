pub mod Capped
pub mod StatementSizes
pub mod Dimensions
pub mod Orders
pub mod Tallies
