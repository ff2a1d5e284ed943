pub mod Views
pub mod Runs
pub mod TableFits
pub mod Steps
pub mod Calls
pub mod Desks
