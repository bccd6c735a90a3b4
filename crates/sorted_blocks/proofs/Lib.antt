pub mod ListLemmas
pub mod OrderLemmas
pub mod SearchLemmas
pub mod BlockLemmas
pub mod LawLemmas
