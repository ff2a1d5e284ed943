pub mod BoundLemmas
pub mod CoarseLemmas
pub mod QuarterLemmas
pub mod CostOrder
mod Computed
pub mod Sizes
pub mod SiteSizes
mod JoinedTerms
mod SteepnessLemmas
