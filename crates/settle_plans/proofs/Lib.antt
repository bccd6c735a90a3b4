pub mod RowLemmas
pub mod OpenedPlans
pub mod ChildLemmas
pub mod ResultLemmas
pub mod RetryLemmas
pub mod LossLemmas
pub mod CleanPlans
