mod VectorLemmas
mod SumLemmas
mod TermLemmas
mod CutLemmas
mod ClosedForm
mod Computed
pub mod PolishLemmas
