pub mod FaultLemmas
pub mod ReadLemmas
pub mod StepLemmas
pub mod CheckLemmas
pub mod TreeLemmas
pub mod ItemLemmas
pub mod CutLemmas
pub mod ValidLemmas
pub mod LimitLemmas
mod PrefixLemmas
