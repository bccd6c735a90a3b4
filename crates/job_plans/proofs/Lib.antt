pub mod EditLemmas
pub mod GroupLemmas
pub mod JobLemmas
