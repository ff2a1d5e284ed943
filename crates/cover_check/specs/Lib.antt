pub mod Cover
pub mod Shapes
pub mod Verdict
