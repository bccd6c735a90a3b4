pub mod Kept
pub mod Stands
pub mod Room
pub mod Plans
pub mod Reopened
