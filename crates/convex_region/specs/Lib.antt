pub mod Polygon
pub mod Convex
pub mod Dent
pub mod Box
pub mod Turns
