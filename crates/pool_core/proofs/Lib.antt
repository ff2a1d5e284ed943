pub mod CountsKept
mod VerdictLemmas
pub mod LoggedLemmas
pub mod MarksKept
pub mod TreeKept
pub mod SoundSteps
pub mod BegunLemmas
pub mod Entries
mod SortOut
mod Leasing
mod Returning
mod Beginnings
mod Resumed
mod Listed
