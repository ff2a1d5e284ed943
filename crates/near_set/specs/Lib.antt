pub mod Near
pub mod Ceiling
pub mod Standing
