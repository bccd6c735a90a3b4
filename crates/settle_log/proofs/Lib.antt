pub mod CleanLemmas
pub mod ChoiceLemmas
