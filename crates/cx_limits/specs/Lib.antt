pub mod Order
pub mod Inners
pub mod Rows
pub mod Scan
pub mod First
