mod NumberForms
mod HeadForms
pub mod MarkForms
mod FrontLemmas
mod LineBytes
mod InstancePartLemmas
pub mod HeadLemmas
mod AnswerWords
pub mod AnswerTextLemmas
pub mod LengthLemmas
mod Written
mod HeadParts
mod FormLemmas
mod ShortLemmas
mod PartLemmas
mod CanonicalLemmas
mod ReadLemmas
mod Lending
mod BeginLemmas
