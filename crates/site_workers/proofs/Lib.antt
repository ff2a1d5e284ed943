mod SearchLemmas
mod DeskLemmas
mod CentreLemmas
