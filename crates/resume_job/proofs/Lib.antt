mod TextLemmas
mod TallyLemmas
pub mod ReopenLemmas
mod GrownLemmas
mod MatchLemmas
mod TurnLemmas
pub mod ResumeLemmas
