pub mod Incumbents
mod ViewLists
mod Runs
mod Moves
mod IncumbentSteps
mod TurnSteps
mod SeatSteps
mod FirstAndLast
pub mod LeasedFits
