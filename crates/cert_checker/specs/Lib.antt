pub mod Faults
pub mod Walking
pub mod Checking
pub mod Steps
pub mod CheckReading
