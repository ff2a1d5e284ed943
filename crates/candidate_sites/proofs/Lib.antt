mod CheapestLemmas
mod OpeningLemmas
mod SkipLemmas
mod StartLemmas
pub mod CentreLemmas
