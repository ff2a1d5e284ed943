pub mod DistanceLemmas
mod Axes
