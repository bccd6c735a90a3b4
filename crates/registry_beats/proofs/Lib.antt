pub mod KeyRows
pub mod BeatLemmas
pub mod SweepLemmas
pub mod ListLemmas
