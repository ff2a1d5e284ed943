mod Weights
mod Extremes
pub mod Vertices
pub mod Rooted
