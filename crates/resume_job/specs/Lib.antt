pub mod Loading
pub mod Reopening
pub mod Resumed
pub mod Steps
