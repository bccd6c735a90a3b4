pub mod TakeLemmas
pub mod SendLemmas
