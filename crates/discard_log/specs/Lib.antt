pub mod LogView
pub mod Nodes
