mod ListLemmas
pub mod SourceLemmas
mod SinkLemmas
pub mod PutLemmas
