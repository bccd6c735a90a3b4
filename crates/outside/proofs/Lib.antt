pub mod KnownLemmas
pub mod DialLemmas
