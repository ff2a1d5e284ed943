pub mod Cheaper
pub mod First
pub mod Start
