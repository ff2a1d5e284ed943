pub mod Edges
pub mod Boxes
pub mod BoxLemmas
pub mod AreaLemmas
mod TurnLemmas
pub mod Convexity
