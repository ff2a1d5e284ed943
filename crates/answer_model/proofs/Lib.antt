pub mod ClaimsLemmas
pub mod TallyLemmas
pub mod NodesLemmas
