pub mod Widths
pub mod Numbers
pub mod Load
pub mod Dump
pub mod Orders
