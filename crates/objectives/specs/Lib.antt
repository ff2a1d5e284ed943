pub mod Totals
pub mod Limits
pub mod TotalLaws
pub mod Steepness
