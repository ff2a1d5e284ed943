pub mod InputLemmas
pub mod LineLemmas
mod AheadLemmas
