pub mod FineLemmas
pub mod CoverLaw
pub mod ChainLemmas
pub mod BeyondLemmas
pub mod VerdictLemmas
