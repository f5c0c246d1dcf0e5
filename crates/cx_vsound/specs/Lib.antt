pub mod Search
pub mod Parts
pub mod Arrays
pub mod Limbs
pub mod Firsts
