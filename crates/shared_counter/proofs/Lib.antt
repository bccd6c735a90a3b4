pub mod Counts
pub mod Deals
