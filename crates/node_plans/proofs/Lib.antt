pub mod NodeLemmas
pub mod ShownLemmas
pub mod EndingLemmas
pub mod HeldLemmas
pub mod StopLemmas
pub mod ReopenLemmas
