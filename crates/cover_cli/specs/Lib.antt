pub mod Status
pub mod Texts
pub mod Ports
pub mod Outcome
