pub mod Cut
pub mod Terms
pub mod Polished
pub mod Sizes
