pub mod ReadsBack
mod Places
mod Limits
mod Built
mod Written
pub mod ReadLawful
mod TextRows
mod FirstFaults
mod CutTexts
pub mod InstanceLengths
