mod LineLemmas
pub mod AheadLemmas
mod ReadingLemmas
mod BatchLemmas
