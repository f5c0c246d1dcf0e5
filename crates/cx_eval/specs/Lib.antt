pub mod Looked
pub mod Evaluated
pub mod Firsts
pub mod Tables
pub mod Cycling
pub mod Sources
pub mod Shown
