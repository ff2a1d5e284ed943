pub mod Head
pub mod HeadFields
pub mod Leaf
pub mod Nodes
pub mod Tally
