pub mod Instance
pub mod Box
