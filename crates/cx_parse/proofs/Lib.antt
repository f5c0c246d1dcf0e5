pub mod Steps
pub mod Lists
pub mod Commas
pub mod Trees
