pub mod Worlds
pub mod Doing
pub mod Machines
pub mod Statements
pub mod Lawful
pub mod Running
