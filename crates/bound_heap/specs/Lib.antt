pub mod HeapView
pub mod Ranks
