mod CeilingLemmas
pub mod NearLemmas
