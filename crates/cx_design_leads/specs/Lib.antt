pub mod Edges
pub mod Links
pub mod Nodes
