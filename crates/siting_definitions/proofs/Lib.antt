pub mod Integers
pub mod Totals
pub mod CostLemmas
pub mod MarkLemmas
