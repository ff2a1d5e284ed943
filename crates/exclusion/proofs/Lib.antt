mod CornerLemmas
pub mod ExcludedLemmas
