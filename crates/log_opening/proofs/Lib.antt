pub mod OpeningLemmas
pub mod FiringLemmas
pub mod FireLemmas
pub mod SeriesLemmas
