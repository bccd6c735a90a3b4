pub mod PageLemmas
pub mod HandLemmas
pub mod TurnLemmas
pub mod ScanLemmas
pub mod StepLemmas
